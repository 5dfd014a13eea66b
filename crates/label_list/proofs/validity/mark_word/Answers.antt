use Rattle.std.proofs.Common.{refl, sym, ◌∙◌, arith}
use mathlib.Core.Bool.{false≢true}
use Rattle.label_list.specs.declared.Side.TheVariants.{Given, Used}
use Rattle.label_list.proofs.Checked.{word_free, word_request, word_low, word_given, word_used, word_other}
use Rattle.label_list.proofs.Marks.{marked_unlisted}
use Rattle.label_list.proofs.Standing.{parts_stands, free_stands, request_stands}
use Rattle.label_list.proofs.validity.mark_word.Goals as goal

pub returns-then-word-eq0 : goal.returns-then-word-eq0
returns-then-word-eq0 c =
    let free = c.if-word-eq0.true in
    (word_free _ _ free, λ e. rw free (marked_unlisted _ 0 free_stands c.requires))

pub returns-then-word-eq-REQUEST_WORD : goal.returns-then-word-eq-REQUEST_WORD
returns-then-word-eq-REQUEST_WORD c =
    let asked = c.if-word-eq-REQUEST_WORD.true in (
      word_request _ _ c.if-word-eq0.false asked,
      λ e. marked_unlisted _ _ (λ s l. request_stands s l _ asked) c.requires,
    )

pub returns-then-label-lt-FIRST_LABEL : goal.returns-then-label-lt-FIRST_LABEL
returns-then-label-lt-FIRST_LABEL c =
    (word_low _ _ c.if-word-eq0.false c.if-word-eq-REQUEST_WORD.false (omega arith), λ e. absurd (false≢true e))

pub returns-then-on_side : goal.returns-then-on_side
returns-then-on_side c =
    let given = sym c.on_side.ensures ∙ c.if-on_side.true in (
      c.mark_label.ensures.0 ∙ word_given _ _ c.if-word-eq0.false c.if-word-eq-REQUEST_WORD.false (omega arith) given,
      λ e. c.mark_label.ensures.1 _ (parts_stands Given _ _ given refl),
    )

pub returns-then-on_side-2 : goal.returns-then-on_side-2
returns-then-on_side-2 c =
    let marked = c.mark_label-then-on_side-2.ensures in
    let used = sym c.on_side-2.ensures ∙ c.if-on_side-2.true in
    let other = sym c.on_side.ensures ∙ c.if-on_side.false in (
      marked.0 ∙ word_used _ _ c.if-word-eq0.false c.if-word-eq-REQUEST_WORD.false (omega arith) other used,
      λ e. marked.1 _ (parts_stands Used _ _ used refl),
    )

pub returns : goal.returns
returns c =
    let given = sym c.on_side.ensures ∙ c.if-on_side.false in
    let used = sym c.on_side-2.ensures ∙ c.if-on_side-2.false in (
      word_other _ _ c.if-word-eq0.false c.if-word-eq-REQUEST_WORD.false (omega arith) given used,
      λ e. absurd (false≢true e),
    )
