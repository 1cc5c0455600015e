mod Decimals
mod Hexadecimals
mod Lines
mod Listings
mod Scans
mod Takes
