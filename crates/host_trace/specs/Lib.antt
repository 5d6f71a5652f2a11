pub mod Tellings
pub mod Footings
pub mod Flights
pub mod Tracings
