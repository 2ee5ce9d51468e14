pub mod Tables
pub mod PmuMappings
pub mod MetaInfo
pub mod Entries
pub mod Laws
