pub mod Choice
pub mod PlotListing
