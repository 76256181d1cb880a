pub mod FirstForm
pub mod FirstCode
pub mod FirstRun
pub mod FirstReading
pub mod Sources
