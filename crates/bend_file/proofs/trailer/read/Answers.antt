use mathlib.Core.Path.{sym, ◌∙◌}
use native.Mathlib.Omega.{arith}
use borrow.Author.Rules.{rules}
use Rattle.bend_file.proofs.Bytes.{mark-at-end}
use Rattle.bend_file.proofs.Rules.{rows-read, coords-read, count-read, start-read, unmarked, too_large, miscounted, read_whole}
use Rattle.bend_file.proofs.trailer.read.Goals as goal

pub returns-then-not-ends_with-clause-read : goal.returns-then-not-ends_with-clause-read
returns-then-not-ends_with-clause-read c =
    let f = c.args.file.now in
    let m = c.ends_with.ensures.value ∙ mark-at-end f (omega (arith, c.requires)) in
    rw (unmarked f _ (sym m ∙ c.if-not-ends_with.true))

pub returns-in_err-wanted-clause-read : goal.returns-in_err-wanted-clause-read
returns-in_err-wanted-clause-read c =
    let f = c.args.file.now in
    let m = c.ends_with.ensures.value ∙ mark-at-end f (omega (arith, c.requires)) in
    let n = c.from-rows.ensures ∙ rw (c.from_le_bytes.ensures, c.bytes_at.ensures) (rows-read f _) in
    let k = c.from-coords.ensures ∙ rw (c.from_le_bytes-2.ensures, c.bytes_at-2.ensures) (coords-read f _) in
    let w = rw c.value_count.ensures at c.in_err-wanted.ensures.value in
    rw (too_large f _ (sym m ∙ c.if-not-ends_with.false) _ _ n k _ w) (search rules)

pub returns-then-count-wanted-clause-read : goal.returns-then-count-wanted-clause-read
returns-then-count-wanted-clause-read c =
    let f = c.args.file.now in
    let m = c.ends_with.ensures.value ∙ mark-at-end f (omega (arith, c.requires)) in
    let n = c.from-rows.ensures ∙ rw (c.from_le_bytes.ensures, c.bytes_at.ensures) (rows-read f _) in
    let k = c.from-coords.ensures ∙ rw (c.from_le_bytes-2.ensures, c.bytes_at-2.ensures) (coords-read f _) in
    let w = rw c.value_count.ensures at c.in_ok-wanted.ensures.value in
    let x = c.from_le_bytes-count.ensures ∙ rw c.bytes_at-3.ensures (count-read f _) in
    rw (miscounted f _ (sym m ∙ c.if-not-ends_with.false) _ _ n k _ _ w x c.if-count-wanted.true)

pub returns-clause-read : goal.returns-clause-read
returns-clause-read c =
    let f = c.args.file.now in
    let m = c.ends_with.ensures.value ∙ mark-at-end f (omega (arith, c.requires)) in
    let n = c.from-rows.ensures ∙ rw (c.from_le_bytes.ensures, c.bytes_at.ensures) (rows-read f _) in
    let k = c.from-coords.ensures ∙ rw (c.from_le_bytes-2.ensures, c.bytes_at-2.ensures) (coords-read f _) in
    let w = rw c.value_count.ensures at c.in_ok-wanted.ensures.value in
    let x = c.from_le_bytes-count.ensures ∙ rw c.bytes_at-3.ensures (count-read f _) in
    let s = c.from_le_bytes-3.ensures ∙ rw c.bytes_at-4.ensures (start-read f _) in
    read_whole f _ (sym m ∙ c.if-not-ends_with.false) _ _ n k _ _ w x _ c.if-count-wanted.false s
