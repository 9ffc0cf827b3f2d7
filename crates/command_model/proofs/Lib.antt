mod CommandExamples
mod WordExamples
