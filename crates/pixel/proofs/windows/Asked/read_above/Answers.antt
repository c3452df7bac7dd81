-- `pixel::windows::Asked::read_above` meets its contract: the top is read for a prediction of 0, and each turn reads one level below. Assumes nothing.
use Rattle.std.proofs.Common.{◌≡◌, refl, pos, replicate, subst, ℕ, suc, ◌+◌, ◌-◌, arith}
use Rattle.pixel.specs.Inner.Axes.{AxesOf}
use Rattle.pixel.specs.Inner.Reading.{Above}
use Rattle.pixel.proofs.Readings.{some_same, above_top}
use Rattle.pixel.proofs.Predictions.{top_predicted}
use Rattle.pixel.proofs.windows.Asked.read_above.Goals as goal

pub read_level-requires-clause-above : goal.read_level-requires-clause-above
read_level-requires-clause-above c = above_top c.args.self.settings c.args.self.column c.args.self.row c.args.levels.now _

pub read_level-requires-clause-prediction : goal.read_level-requires-clause-prediction
read_level-requires-clause-prediction c = top_predicted c.args.self.settings c.args.self.column c.args.self.row c.args.self.settings.depth refl c.args.levels.now

pub returns-then-top-eq0-clause-read : goal.returns-then-top-eq0-clause-read
returns-then-top-eq0-clause-read c = λ upper e.
    let a = c.args.self in
    let none = above_top a.settings a.column a.row c.args.levels.now (replicate 16 (pos 0)) in
    rw (← some_same e) (subst (λ (l : ℕ). Above a.settings a.column a.row c.args.levels.now l 0 0 (replicate 16 (pos 0))) c.if-top-eq0.true none)

pub loop-n-preserved : goal.loop-n-preserved
loop-n-preserved c =
    let s = c.args.self.settings in
    let i = c.args.self.column in
    let j = c.args.self.row in
    let u = c.in-Some.lower in
    let next : s.depth - c.loop-n.n - 1 ≡ s.depth - (c.loop-n.n + 1) = omega arith in
    let here : s.depth - c.loop-n.n ≡ suc (s.depth - (c.loop-n.n + 1)) = omega (arith, c.loop-n-test.true) in (
      subst (λ (l : ℕ). Above s i j c.args.levels.now l u.block.read u.place u.block.values) next (c.read_below.ensures.read u c.in-Some.is),
      subst (λ (l : ℕ). AxesOf s i j l u.columns u.rows) here (c.read_below.ensures.axes u c.in-Some.is),
    )
