mod AnswerLines
mod RecordLaws
