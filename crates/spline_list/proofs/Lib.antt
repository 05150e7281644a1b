pub mod Agreed
pub mod Laws
pub mod RoundTrip
