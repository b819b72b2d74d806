pub mod ExprCode
pub mod StmtCode
pub mod CaseLaws
pub mod MidLaws
