pub mod RoundTrips
pub mod Archive
pub mod OldReaders
