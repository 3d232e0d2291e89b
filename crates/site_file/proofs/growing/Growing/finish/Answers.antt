use Rattle.site_file.proofs.growing.Growing.finish.Goals as goal

pub returns : goal.returns
returns c = λ file stands. record { site = c.of_parts.ensures file.site stands.parts; own = stands.own }
