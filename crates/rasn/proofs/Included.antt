pub mod IntoBer
