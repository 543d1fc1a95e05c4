-- The records of an input, read one after another. Assumes nothing.
use Rattle.std.proofs.Common.{◌≡◌, ℕ, suc, ◌+◌, ◌<◌, ◌≤◌, List, [], ◌∷◌, ◌++◌, length, get_or, drop, set, sym, refl, ap, ◌∙◌, subst, append_assoc, append-nil, arith, length-append}
use Rattle.std.proofs.lemmas.List.{length_push, drop_more, set_at}
use Rattle.lines.specs.declared.faults.LineFault.{LineFault}
use Rattle.lines.specs.declared.line.Line.{Line}
use Rattle.records.specs.Records.{Reads, FirstFault}
use Rattle.intake.specs.Intake.{EachReads, AllRead, Taken, FirstBad}
use Rattle.records.proofs.Reading.{excludes}

each_length : (rs : List (List ℕ)) (ls : List Line) → EachReads rs ls → length rs ≡ length ls
each_length [] [] h = refl
each_length [] (l ∷ ls) h = absurd h
each_length (r ∷ rs) [] h = absurd h
each_length (r ∷ rs) (l ∷ ls) h = ap suc (each_length rs ls h.1)

each_push : (rs : List (List ℕ)) (ls : List Line) (r : List ℕ) (l : Line) → EachReads rs ls → Reads r l → EachReads (rs ++ (r ∷ [])) (ls ++ (l ∷ []))
each_push [] [] r l h last = (last, tt)
each_push [] (k ∷ ls) r l h last = absurd h
each_push (q ∷ rs) [] r l h last = absurd h
each_push (q ∷ rs) (k ∷ ls) r l h last = (h.0, each_push rs ls r l h.1 last)

-- a record among others that are all lines has no fault
each_fine : (before : List (List ℕ)) (row : List ℕ) (left : List (List ℕ)) (ls : List Line) (f : LineFault) → EachReads (before ++ (row ∷ left)) ls → FirstFault row f → ⊥
each_fine [] row left [] f h bad = h
each_fine [] row left (l ∷ ls) f h bad = excludes bad h.0
each_fine (r ∷ before) row left [] f h bad = h
each_fine (r ∷ before) row left (l ∷ ls) f h bad = each_fine before row left ls f h.1 bad

-- `count` records of rs are lines, and these are left
pub record Sofar (rs left : List (List ℕ)) (count : ℕ) : Type 0 where
  pub before : List (List ℕ)
  pub lines : List Line
  pub split : rs ≡ before ++ left
  pub read : EachReads before lines
  pub counted : count ≡ length lines

pub sofar_none : (rs : List (List ℕ)) → Sofar rs rs 0
sofar_none rs = record { before = []; lines = []; split = refl; read = tt; counted = refl }

module _ {rs left : List (List ℕ)} {count : ℕ} (s : Sofar rs left count) where
  before_long : length s.before ≡ count
  before_long = each_length s.before s.lines s.read ∙ sym s.counted

  pub sofar_more : (row : List ℕ) (after : List (List ℕ)) (l : Line) → left ≡ row ∷ after → Reads row l → Sofar rs after (count + 1)
  sofar_more row after l next reads = record {
    before = s.before ++ (row ∷ []);
    lines = s.lines ++ (l ∷ []);
    split = s.split ∙ ap (λ r. s.before ++ r) next ∙ sym (append_assoc s.before (row ∷ []) after);
    read = each_push s.before s.lines row l s.read reads;
    counted = ap (λ n. n + 1) s.counted ∙ sym (length_push s.lines l);
  }

  pub sofar_all : left ≡ [] → AllRead rs count
  sofar_all done = record {
    lines = s.lines;
    read = subst (λ r. EachReads r s.lines) (sym (s.split ∙ ap (λ r. s.before ++ r) done ∙ append-nil s.before)) s.read;
    counted = s.counted;
  }

  pub sofar_bad : (room : ℕ) (row : List ℕ) (after : List (List ℕ)) → left ≡ row ∷ after → count ≤ room → FirstBad room rs (count + 1) row
  sofar_bad room row after next fits = record {
    before = s.before;
    after = after;
    split = s.split ∙ ap (λ r. s.before ++ r) next;
    read = record { lines = s.lines; read = s.read; counted = each_length s.before s.lines s.read };
    fits = omega (arith, before_long);
    counted = omega (arith, before_long);
  }

  -- where all records are lines, the next one is among them, and has no fault
  pub sofar_few : {n : ℕ} → AllRead rs n → (row : List ℕ) (after : List (List ℕ)) → left ≡ row ∷ after → count < n
  sofar_few all row after next =
      omega (arith, all.counted, each_length rs all.lines all.read, ap length (s.split ∙ ap (λ r. s.before ++ r) next), length-append s.before (row ∷ after), before_long)

  pub sofar_fine : {n : ℕ} → AllRead rs n → (row : List ℕ) (after : List (List ℕ)) (f : LineFault) → left ≡ row ∷ after → FirstFault row f → ⊥
  sofar_fine all row after f next bad =
      each_fine s.before row after all.lines f (subst (λ r. EachReads r all.lines) (s.split ∙ ap (λ r. s.before ++ r) next) all.read) bad

-- the lines so far stand at the front of the strip
pub record Put (rs left : List (List ℕ)) (count : ℕ) (was after : List Line) : Type 0 where
  pub sofar : Sofar rs left count
  pub strip : after ≡ sofar.lines ++ drop count was

pub put_none : (rs : List (List ℕ)) (was : List Line) → Put rs rs 0 was was
unfolding sofar_none
put_none rs was = record { sofar = sofar_none rs; strip = refl }

pub put_more : {rs left : List (List ℕ)} {count : ℕ} {was after : List Line} → Put rs left count was after → (row : List ℕ) (rest : List (List ℕ)) (l : Line) → left ≡ row ∷ rest → Reads row l → count < length was → Put rs rest (count + 1) was (set after count l)
unfolding sofar_more
put_more {count = count} {was = was} {after = after} p row rest l next reads room =
    let s = p.sofar in
    record {
      sofar = sofar_more s row rest l next reads;
      strip =
          ap (λ a. set a count l) (p.strip ∙ ap (λ d. s.lines ++ d) (drop_more was count l room))
          ∙ set_at s.lines (get_or was count l) (drop (count + 1) was) l count (sym s.counted)
          ∙ sym (append_assoc s.lines (l ∷ []) (drop (count + 1) was));
    }

pub put_all : {rs left : List (List ℕ)} {count n : ℕ} {was after : List Line} → Put rs left count was after → left ≡ [] → AllRead rs n → n ≤ length was → Taken rs n was after
unfolding sofar_all
put_all {rs} {count = count} {n = n} {was = was} {after = after} p none all room =
    let s = p.sofar in
    let done : n ≡ count = omega (arith, all.counted, each_length rs all.lines all.read, ap length (s.split ∙ ap (λ r. s.before ++ r) none ∙ append-nil s.before), each_length s.before s.lines s.read, s.counted) in
    subst (λ m. Taken rs m was after) (sym done) (record { all = sofar_all s none; room = omega (arith, done, room); strip = p.strip })

pub all_counted : {rs : List (List ℕ)} {n : ℕ} → AllRead rs n → n ≡ length rs
all_counted {rs} all = all.counted ∙ sym (each_length rs all.lines all.read)
