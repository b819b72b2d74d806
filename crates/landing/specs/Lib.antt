-- The landing table, what the landing theorem says, what holds along a walk, and the nodes of a tree.
pub mod Distance
pub mod Landed
pub mod Walk
pub mod Nodes
