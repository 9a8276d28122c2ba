use Rattle.std.proofs.Common.{refl}
use Rattle.catalogue.specs.Listed.{entries_in, taken}
use Rattle.reader.proofs.Stepping.{none_past, no_longer, stepped}
use Rattle.reader.proofs.Reader.next.Goals as goal

pub returns-then-place-code : goal.returns-then-place-code
returns-then-place-code c =
    record {
      step = none_past (entries_in c.args.self.now.catalogue.now) c.args.self.now.code.now c.args.self.now.place c.if-place-code.true;
      by = refl;
      of = refl;
    }

pub overflow_sub-self : goal.overflow_sub-self
overflow_sub-self c =
    no_longer c.args.self.now.code.now c.read_one-answer.result.1.now c.args.self.now.place (taken c.read_one-answer.result.0) c.read_one-answer.ensures.rest

pub returns : goal.returns
returns c =
    record {
      step =
          stepped (entries_in c.args.self.now.catalogue.now) c.args.self.now.code.now c.read_one-answer.result.1.now c.args.self.now.place c.read_one-answer.result.0
          c.if-place-code.false c.read_one-answer.ensures.answers c.read_one-answer.ensures.rest c.read_one-answer.ensures.within;
      by = refl;
      of = refl;
    }
