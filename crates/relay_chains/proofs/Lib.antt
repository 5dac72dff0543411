pub mod Interned
pub mod Linked
pub mod LinkNodes
pub mod Nodes
pub mod Places
pub mod Texts
pub mod Under
