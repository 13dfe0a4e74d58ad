-- Adapters of std's readers and writers.
use Rattle.std.specs.Prelude.{ℕ}
use Rattle.hm_outside.specs.declared.adapters.ReaderSource.{ReaderSource}
use Rattle.hm_outside.specs.declared.adapters.WriterSink.{WriterSink}

abbrev pub source_reader : {R : Type 0} → ReaderSource R → R
source_reader s = s.reader

abbrev pub source_faults : {R : Type 0} → ReaderSource R → ℕ
source_faults s = s.faults

abbrev pub sink_writer : {W : Type 0} → WriterSink W → W
sink_writer s = s.writer

abbrev pub sink_faults : {W : Type 0} → WriterSink W → ℕ
sink_faults s = s.faults
