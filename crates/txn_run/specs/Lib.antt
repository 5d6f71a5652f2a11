pub mod Bodies
pub mod Callers
pub mod Facts
pub mod Flights
pub mod Outcomes
pub mod Runners
pub mod Turns
pub mod Told
