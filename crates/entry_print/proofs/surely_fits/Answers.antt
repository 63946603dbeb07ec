use mathlib.Core.Path.{◌≡◌, refl, sym, ap, ◌∙◌}
use mathlib.Core.Bool.{false, true≢false}
use Rattle.stanza_form.specs.declared.Shape.{Shape}
use Rattle.stanza_form.specs.declared.Shape.TheVariants.{Octets, Labels, Counted, Strings, Rest, Windows}
use Rattle.stanza_form.proofs.Forms.{is_windows, shaped}
use Rattle.entry_print.proofs.Printings.{surely_coded}
use native.Mathlib.Omega.{arith}
use Rattle.entry_print.proofs.surely_fits.Goals.{in-Windows, in_default-matches}
use Rattle.entry_print.proofs.surely_fits.Goals as goal

-- a shape of another variant is not that of windows
no_windows : (k : Shape) → (k ≡ Windows → ⊥) → is_windows k ≡ false
no_windows Octets h = refl
no_windows Labels h = refl
no_windows Counted h = refl
no_windows Strings h = refl
no_windows Rest h = refl
no_windows Windows h = absurd (h refl)

pub returns : goal.returns
returns c =
    λ e ns g s xs b n a. elim c.match-matches.branch [
      | in-Windows w ↦ absurd (true≢false (sym (rw w.matches-is at e)))
      | in_default-matches w ↦ surely_coded ns g s c.args.codes.now xs b a c.in-Some.code.now (sym c.in-Some.ensures.value) c.field-d.result c.field-d.ensures
          ((shaped _ c.field-d.result.form).windows ∙ ap is_windows (sym c.layout_of-y.ensures.shape) ∙ no_windows c.layout_of-y.result.shape w.in_default-matches.not-Windows)
          c.args.room (omega (arith, n, c.if-room-octets.false))
    ]
