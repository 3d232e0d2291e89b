use Rattle.std.proofs.Common.{codes, refl, sym}
use Rattle.json_document.specs.Standing.{data_of}
use Rattle.page_tree.proofs.PartLaws.{put_here, put_elsewhere, unlike}
use Rattle.page_tree.proofs.parts.Parts.keep.Goals as goal

pub returns-in-n : goal.returns-in-n
returns-in-n c =
    let name = c.args.name.now in
    let d = data_of c.args.place in
    λ before are. record {
      name = put_here name (codes "n") d before c.in-n.is;
      attributes = put_elsewhere name (codes "a") d before _ (unlike name (codes "a") (codes "n") c.in-n.is refl) are.attributes;
      children = put_elsewhere name (codes "c") d before _ (unlike name (codes "c") (codes "n") c.in-n.is refl) are.children;
    }

pub returns-in-a : goal.returns-in-a
returns-in-a c =
    let name = c.args.name.now in
    let d = data_of c.args.place in
    λ before are. record {
      name = put_elsewhere name (codes "n") d before _ (λ h. c.in-a.not-n (sym h)) are.name;
      attributes = put_here name (codes "a") d before c.in-a.is;
      children = put_elsewhere name (codes "c") d before _ (unlike name (codes "c") (codes "a") c.in-a.is refl) are.children;
    }

pub returns-in-c : goal.returns-in-c
returns-in-c c =
    let name = c.args.name.now in
    let d = data_of c.args.place in
    λ before are. record {
      name = put_elsewhere name (codes "n") d before _ (λ h. c.in-c.not-n (sym h)) are.name;
      attributes = put_elsewhere name (codes "a") d before _ (λ h. c.in-c.not-a (sym h)) are.attributes;
      children = put_here name (codes "c") d before c.in-c.is;
    }

pub returns-in_default : goal.returns-in_default
returns-in_default c =
    let name = c.args.name.now in
    let d = data_of c.args.place in
    λ before are. record {
      name = put_elsewhere name (codes "n") d before _ (λ h. c.in_default.not-n (sym h)) are.name;
      attributes = put_elsewhere name (codes "a") d before _ (λ h. c.in_default.not-a (sym h)) are.attributes;
      children = put_elsewhere name (codes "c") d before _ (λ h. c.in_default.not-c (sym h)) are.children;
    }
