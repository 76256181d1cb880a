mod OneSource
mod SomeSource
mod Faults
