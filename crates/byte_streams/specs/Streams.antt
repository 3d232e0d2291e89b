-- What clauses see of a Fed and of a Told.
use Rattle.std.specs.Prelude.{List}
use Rattle.byte_streams.specs.Answers.{Answer}
use Rattle.byte_streams.specs.declared.source.Fed.{Fed}
use Rattle.byte_streams.specs.declared.sink.Told.{Told}

-- the reader that it was made of
abbrev pub fed_reader : {R : Type 0} → Fed R → R
fed_reader fed = fed.reader

-- what its reads answered
abbrev pub fed_answers : {R : Type 0} → Fed R → List Answer
fed_answers fed = fed.history.answers

-- the writer that it was made of
abbrev pub told_writer : {W : Type 0} → Told W → W
told_writer told = told.writer

-- what its writes answered
abbrev pub told_puts : {W : Type 0} → Told W → List Answer
told_puts told = told.history.answers

-- what they were offered
abbrev pub told_offers : {W : Type 0} → Told W → List Answer
told_offers told = told.offered.answers
