-- For the code's contracts alone: the producers of many topics, as the code keeps them.
use Rattle.pulsar_producer_table.specs.declared.multis.Multis.{Multis as Kept}
use Rattle.pulsar_producer_table.specs.Multis.{Multis}

abbrev pub multis_of : Kept → Multis
multis_of m = record { own = m.own; made = m.made.entries }
