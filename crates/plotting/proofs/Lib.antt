pub mod ChoiceLaws
pub mod PlotLaws
pub mod LowAnswers
pub mod NeverShort
