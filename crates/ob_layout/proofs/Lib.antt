pub mod Caps
pub mod Layouts
pub mod Found
pub mod Depths
pub mod RoundUps
pub mod CappedOffsets
