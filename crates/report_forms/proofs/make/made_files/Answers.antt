-- Both files stand in memory under their names.
use Rattle.std.proofs.Common.{◌≡◌, ◌∙◌, ap, [], ◌∷◌, ◌++◌, subst, sym, Some}
use Rattle.outside.specs.Memory.{file_of}
use Rattle.report_forms.specs.Due.{HasMade}
use Rattle.report_forms.proofs.MadeLemmas.{made-found}
use Rattle.report_forms.proofs.make.made_files.Goals as goal

pub returns : goal.returns
returns c =
    let is : c.push-2.new.self.items ≡ (c.in_ok-aff_name.aff_name, c.in_ok-aff.aff)
    ∷ (c.in_ok-dic_name.dic_name, c.in_ok-dic.dic) ∷ [] =
    c.in_ok-push-2.ensures.items
    ∙ ap (λ files. files ++ (c.in_ok-dic_name.dic_name, c.in_ok-dic.dic) ∷ [])
    (c.in_ok-push.ensures.items
    ∙ ap (λ files. files ++ (c.in_ok-aff_name.aff_name, c.in_ok-aff.aff) ∷ [])
    c.new-files.ensures.items) in
    subst (HasMade c.args.size) (sym c.new.ensures)
    (subst (λ files. HasMade c.args.size (Some (file_of files))) (sym is)
    (made-found c.args.size c.in_ok-aff_name.aff_name c.in_ok-dic_name.dic_name c.in_ok-aff.aff
    c.in_ok-dic.dic
    c.in_ok-aff_name.ensures.ok c.in_ok-dic_name.ensures.ok c.in_ok-aff.ensures.bytes
    c.in_ok-dic.ensures.bytes))
