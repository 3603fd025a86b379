mod Addresses
mod Flushing
mod Learning
mod Searches
mod Words
