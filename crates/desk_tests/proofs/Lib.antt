pub mod TwoEyes
