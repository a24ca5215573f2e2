-- A round that changes nothing is the last that tells.
use Rattle.std.proofs.Common.{◌≡◌, ◌∙◌, [], ◌∷◌, refl, ap}
use Rattle.std.specs.Prelude.{List}
use Rattle.vh_elab_sites.specs.Sites.{SiteTree}
use Rattle.vh_elab_declare.specs.Constants.{Home, Known, round, rounds}

pub rounds-stay : (more : List SiteTree) (h : Home) (so : List SiteTree) (k : Known) → round h so k ≡ k → rounds more h so k ≡ k
rounds-stay [] h so k same = refl
rounds-stay (s ∷ more) h so k same = ap (rounds more h so) same ∙ rounds-stay more h so k same
