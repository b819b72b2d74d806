mod LookLaws
mod FarLaws
