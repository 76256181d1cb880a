mod Indexing
mod Keys
mod Listings
