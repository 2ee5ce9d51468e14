pub mod Overlays
pub mod Chains
