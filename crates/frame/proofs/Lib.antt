pub mod Choosing
pub mod Rewrites
pub mod RoundTrip
pub mod Status
