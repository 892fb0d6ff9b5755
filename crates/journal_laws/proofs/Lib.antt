mod FileMeanings
mod HistoryLaws
mod MeaningLaws
mod LineFaults
mod ForgetLaws
mod RecordedCommands
