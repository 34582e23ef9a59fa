-- Laws of the printed lines.
pub mod ReportLaws
pub mod Examples
