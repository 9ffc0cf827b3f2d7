-- The line that pieces of the text tell.
use Rattle.vrplib_model.specs.Lines.{tokens}
use Rattle.vrplib_model.specs.LineKinds.{Line, empty, end_of_file, section_line, keyword_line, word_line, row}
use Rattle.vrplib_rows.specs.declared.line.Line.{Line as ToldLine}
use Rattle.vrplib_rows.specs.declared.line.Line.TheVariants.{Empty, EndOfFile, Section as SectionLine, Keyword as KeywordLine, Word, Row}

-- the line that pieces of the text tell
abbrev pub told : ToldLine → Line
told Empty = empty
told EndOfFile = end_of_file
told (SectionLine key) = section_line key.now
told (KeywordLine key value) = keyword_line key.now (tokens value.now)
told Word = word_line
told (Row line) = row (tokens line.now)
