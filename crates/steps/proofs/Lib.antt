pub mod SinkLaws
pub mod StepLaws
pub mod RunLaws
pub mod LeafLaws
pub mod LessLaws
mod FlagLaws
pub mod HeadLaws
