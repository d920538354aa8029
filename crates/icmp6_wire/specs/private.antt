pub mod MldIterators
pub mod NdiscOptionsSeen
