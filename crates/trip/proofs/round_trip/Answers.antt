-- `trip::round_trip` meets its contract: the trip equals its rule, and what equals the rule keeps the promise.
use mathlib.Core.Path.{◌≡◌}
use Rattle.std.proofs.lemmas.Result.{err_from_is_err_and}
use Rattle.rules.specs.Trip.{trip, trip_of}
use Rattle.trip.proofs.Kept as law
use Rattle.trip.proofs.round_trip.Goals as goal

pub returns-in_err-grid_check-clause-values : goal.returns-in_err-grid_check-clause-values
unfolding trip
returns-in_err-grid_check-clause-values c =
    let p = err_from_is_err_and c.from_residual.result c.from_residual.ensures.1 in
    let no = c.in_err-grid_check.ensures in
    rw (p.1, p.2, ← no)

pub returns : goal.returns
unfolding trip
returns c =
    let r = c.out_and_back.result in
    let passed = c.in_ok-grid_check.ensures in
    let e : trip_of r ≡ trip c.args.image.now c.args.fix.point c.args.fix.height = rw (← passed) c.out_and_back.ensures in
    record { values = e; promise = law.kept _ _ _ r e; anywhere = law.kept_anywhere _ _ _ r e }
