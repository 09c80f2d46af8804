pub mod LawfulNames
pub mod RoundTrip
