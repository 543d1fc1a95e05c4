-- What is summarized, and its text. Assumes nothing.
use Rattle.std.proofs.Common.{◌≡◌, ℕ, List, Ok, Err, Result, sym, subst}
use Rattle.intake.specs.declared.faults.IntakeFault.{IntakeFault}
use Rattle.reports.specs.declared.Takings.{Takings}
use Rattle.reports.specs.Reports.{row, with_header, takings_text, outcome_text, Reports, taken, turned_away}
use Rattle.reports.specs.Summaries.{AllTallied, Outcome}

-- what the pools have taken prints the table
prints_table : (room : ℕ) (input : List ℕ) (t : Takings) → AllTallied room input t → Reports room input (takings_text t)
prints_table room input t h =
    let w = h.tallies.win in
    let p = h.tallies.place in
    let same : takings_text t ≡ _ = λ i. with_header (row (w.pool i) (w.counted i) (w.summed i)) (row (p.pool i) (p.counted i) (p.summed i)) in
    subst (Reports room input) (sym same) (taken h.lines h.read h.few)

-- a summary prints the report
pub prints : (room : ℕ) (input : List ℕ) (r : Result Takings IntakeFault) → Outcome room input r → Reports room input (outcome_text r)
prints room input (Ok t) h = prints_table room input t h
prints room input (Err f) h = turned_away f h
