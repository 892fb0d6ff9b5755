mod Faults
mod ToldAnswers
mod LegalLogs
mod RowSteps
