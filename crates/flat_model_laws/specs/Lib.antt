pub mod AuditExamples
