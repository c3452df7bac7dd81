mod Searching
mod Lookups
mod Filled
mod Choosing
mod FaultySettings
mod Taking
mod Cases
