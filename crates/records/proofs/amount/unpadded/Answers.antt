use Rattle.std.proofs.Common.{◌≡◌, ℕ, zero, suc, ◌-◌, ◌<◌, ◌≤◌, List, [], ◌∷◌, ◌++◌, length, get_or, drop, replicate, refl, arith, length-drop, rules}
use Rattle.std.proofs.iter.runs.Made.{chains}
use Rattle.std.proofs.lemmas.List.{take_rest}
use Rattle.records.proofs.amount.unpadded.Goals as goal

-- spaces in front, and what stands behind them
cut : (n : ℕ) (text : List ℕ) → n ≤ length text → ((k : ℕ) → k < n → get_or text k 0 ≡ 32) → text ≡ replicate n 32 ++ drop n text
cut zero text fits each = refl
cut (suc n) [] fits each = absurd (omega arith)
cut (suc n) (b ∷ text) fits each =
    let space : b ≡ 32 = each 0 (omega arith) in
    let more = cut n text (omega arith) (λ k h. each (suc k) (omega arith)) in
    cc

pub returns-clause-layout : goal.returns-clause-layout
returns-clause-layout c =
    let text = c.args.text.now in
    let n = c.count-spaces.result in
    let fits : n ≤ length text = search (rules, chains) in
    let many : length text - length (drop n text) ≡ n = omega (arith, length-drop n text) in
    rw (take_rest text n, many) (cut n text fits (λ k h. search (rules, chains)))
