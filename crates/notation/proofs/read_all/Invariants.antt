-- What is left of the text, read from here on, gives what the whole text does.
use Rattle.std.proofs.Common.{◌≡◌, drop}
use Rattle.notation.specs.Reading.{start, read_all, filled}
use Rattle.notation.proofs.read_all.Given as goal

abbrev pub invariant-loop-c : goal.invariant-loop-c
invariant-loop-c l =
    record {
      reading : read_all l.s (drop l.c-index l.text) ≡ read_all start l.text;
      bytes : filled l.s (drop l.c-index l.text) l.bytes ≡ filled start l.text l.initial.bytes;
    }
