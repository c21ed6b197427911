-- The laws of stored operations and of scripts' ends that other crates cite.
pub mod Laws
pub mod ScriptEnd
