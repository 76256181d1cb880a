pub mod Faults
pub mod Sink
pub mod Folder
pub mod Memory
pub mod Names
pub mod Devices
