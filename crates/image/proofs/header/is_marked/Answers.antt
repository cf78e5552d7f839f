use Rattle.std.proofs.Common.{◌≡◌, length, take, sym, refl, ap, ◌∙◌}
use Rattle.std.proofs.lemmas.Slice.Eq.{slice_eq-Decides}
use Rattle.image.specs.declared.layout.Layout.{Layout}
use Rattle.image.specs.declared.layout.Layout.TheVariants.{Tray, Zone}
use Rattle.image.specs.Layouts.{mark}
use Rattle.image.proofs.header.is_marked.Goals as goal
use Rattle.std.proofs.lemmas.Bool.Decides.{Decides-eqb}

-- a mark has four bytes
four : (l : Layout) → length (mark l) ≡ 4
four Tray = refl
four Zone = refl

pub returns : goal.returns
returns c =
    let d = slice_eq-Decides Decides-eqb _ _ _ c.starts_with.ensures.value in
    let m = c.mark.ensures in
    let n : length c.mark.result ≡ 4 = ap length m ∙ four c.args.layout in
    (λ t. sym (sym m ∙ d.0 t ∙ ap (λ k. take k c.args.image.now) n), λ e. d.1 (m ∙ sym e ∙ ap (λ k. take k c.args.image.now) (sym n)))
