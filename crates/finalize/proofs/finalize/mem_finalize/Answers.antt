use Rattle.std.proofs.Common.{◌≡◌, rules}
use Rattle.finalize.proofs.Finalizing.{placed, placed_by, answer_placed, answer_stands}
use Rattle.finalize.proofs.finalize.mem_finalize.Goals as goal

pub returns : goal.returns
returns c =
    let e : c.map_err.result ≡ placed c.checked.result = placed_by _ c.checked.result c.map_err.result (λ e q k. search rules) c.map_err.ensures.cases in
    record {
      answer = rw e (answer_placed c.args.mi c.args.frame.now c.args.mem.now c.checked.result c.checked.ensures);
      stands = rw e (answer_stands c.args.mi c.args.frame.now c.args.mem.now c.checked.result c.checked.ensures);
    }
