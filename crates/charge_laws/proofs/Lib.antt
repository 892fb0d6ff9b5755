mod TableLaws
mod RunLaws
mod FaultLaws
