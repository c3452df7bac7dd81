-- What the loop of `bale::filling::fill_indices` keeps.
use Prim.Native.Nat.{ℕ, ◌+◌, ◌*◌}
use lib.ListN.{length}
use Rattle.mathematics.proofs.Filling.{Filling}
use Rattle.bale.specs.Definitions.Words.{word_index, u16_at}
use Rattle.bale.proofs.filling.fill_indices.Given as goal

abbrev pub invariant-loop-i : goal.invariant-loop-i
invariant-loop-i l = Filling 0 (length l.initial.levels) (λ (k : ℕ). word_index (u16_at l.indices (0 + 2 * k))) l.initial.levels l.levels l.i
