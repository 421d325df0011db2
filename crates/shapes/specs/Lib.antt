pub mod Vetted
