use Rattle.std.proofs.Common.{ℕ, zero, suc, ◌*◌, ◌^◌, ◌<◌, arith}
use Rattle.codec.proofs.decode.scaled.Goals as goal

small : (x k : ℕ) → x < 256 → k < 8 → x * 16 ^ k < 2 ^ 36
small x zero h l = omega arith
small x (suc zero) h l = omega arith
small x (suc (suc zero)) h l = omega arith
small x (suc (suc (suc zero))) h l = omega arith
small x (suc (suc (suc (suc zero)))) h l = omega arith
small x (suc (suc (suc (suc (suc zero))))) h l = omega arith
small x (suc (suc (suc (suc (suc (suc zero)))))) h l = omega arith
small x (suc (suc (suc (suc (suc (suc (suc zero))))))) h l = omega arith
small x (suc (suc (suc (suc (suc (suc (suc (suc k)))))))) h l = absurd (omega arith)

pub pow-requires : goal.pow-requires
pow-requires c = let h = small 1 c.args.k (omega arith) (omega arith) in omega arith

pub overflow_mul-result : goal.overflow_mul-result
overflow_mul-result c = let h = small c.args.x c.args.k (omega arith) (omega arith) in rw c.pow.ensures (omega (arith, h))

pub returns-clause-small : goal.returns-clause-small
returns-clause-small c = let h = small c.args.x c.args.k (omega arith) (omega arith) in rw c.pow.ensures (omega (arith, h))
