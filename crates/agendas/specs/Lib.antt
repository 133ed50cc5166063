pub mod Agendas
