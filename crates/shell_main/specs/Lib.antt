pub mod WholeLines
pub mod Forgetful
pub mod Shelled
pub mod Talks
pub mod ShellArguments
pub mod Devices
pub mod Program
